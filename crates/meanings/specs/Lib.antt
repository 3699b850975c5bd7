pub mod Means
pub mod ReadBack
