pub mod Said
pub mod Sizes
pub mod Steps
