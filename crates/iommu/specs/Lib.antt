pub mod Request
pub mod Operations
pub mod Code
