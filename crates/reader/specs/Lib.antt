pub mod Digits
pub mod Lines
pub mod Answers
pub mod Twins
pub mod Ahead
pub mod Held
pub mod Steps
