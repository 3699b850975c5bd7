pub mod Numbers
pub mod Finding
pub mod Answers
pub mod Moving
pub mod Steps
