pub mod Operands
pub mod Choosing
pub mod Decodes
pub mod Only
