pub mod Laws
pub mod Sorted
pub mod Ends
pub mod Refuses
pub mod Cases
pub mod Only
