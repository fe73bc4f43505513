pub mod Found
pub mod Device
pub mod Code
