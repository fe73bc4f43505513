pub mod Bit
pub mod File
pub mod Report
