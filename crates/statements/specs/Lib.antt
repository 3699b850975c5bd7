pub mod Order
pub mod Listing
pub mod Asking
pub mod Turns
pub mod Effects
pub mod Objects
pub mod Lone
