pub mod Objects
pub mod Answers
pub mod Text
pub mod Made
pub mod Steps
