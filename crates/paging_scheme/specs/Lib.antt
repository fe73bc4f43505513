pub mod Scheme
pub mod Code
