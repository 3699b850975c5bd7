pub mod Entries
pub mod Laying
pub mod Exactly
pub mod Meant
