pub mod Segments
pub mod Steps
