pub mod Writing
pub mod Running
pub mod Texts
pub mod Walking
pub mod Bounds
pub mod Answers
pub mod Cases
pub mod Only
