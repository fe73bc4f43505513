pub mod Device
pub mod Process
