pub mod Registers
pub mod Writing
pub mod Reading
pub mod Meanings
pub mod Lists
pub mod ListsWritten
pub mod ListsRead
