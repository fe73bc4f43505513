pub mod Overlap
pub mod Refusals
pub mod Bounds
