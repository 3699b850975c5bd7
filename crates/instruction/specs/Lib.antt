pub mod Names
pub mod Records
pub mod Forms
pub mod Choosing
pub mod Bytes
pub mod Building
pub mod Quick
pub mod Sequences
