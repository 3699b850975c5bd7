pub mod Labels
pub mod Walks
pub mod Passes
pub mod Counts
pub mod Steps
