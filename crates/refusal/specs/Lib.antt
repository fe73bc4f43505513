pub mod Refusal
pub mod Checks
