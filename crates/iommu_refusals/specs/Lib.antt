pub mod Refusals
pub mod Code
