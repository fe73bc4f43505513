pub mod Requests
pub mod Frame
pub mod Over
