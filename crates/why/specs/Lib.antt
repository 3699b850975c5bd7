pub mod Fields
pub mod Reasons
pub mod Explaining
pub mod Numbers
pub mod Exactly
pub mod Mending
