pub mod Bits
pub mod Bytes
pub mod Files
pub mod Reports
pub mod Pending
pub mod Doublewords
pub mod Many
