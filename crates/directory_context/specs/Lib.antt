pub mod Device
pub mod Process
pub mod Code
