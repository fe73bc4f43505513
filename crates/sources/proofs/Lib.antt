pub mod Masks
pub mod Actions
pub mod Rows
