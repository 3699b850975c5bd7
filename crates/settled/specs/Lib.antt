pub mod Code
pub mod Demand
