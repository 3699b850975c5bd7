pub mod Demand
pub mod Same
pub mod Comparing
pub mod LaidText
pub mod Steps
