pub mod Origin
pub mod Meaning
pub mod Operands
pub mod Front
pub mod Head
pub mod Run
