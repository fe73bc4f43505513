pub mod Device
pub mod Placed
