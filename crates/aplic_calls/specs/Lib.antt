pub mod Direct
pub mod Calls
pub mod Run
pub mod Always
pub mod Code
