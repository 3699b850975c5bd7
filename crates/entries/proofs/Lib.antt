pub mod Cells
pub mod Unknown
pub mod Small
pub mod Only
