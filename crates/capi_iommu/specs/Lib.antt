pub mod Face
pub mod Calls
