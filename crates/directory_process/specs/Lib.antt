pub mod Found
pub mod Process
pub mod Code
