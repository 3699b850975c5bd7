pub mod Forms
pub mod Sheet
pub mod Lookup
pub mod Sizes
pub mod Registers
pub mod Quick
