pub mod Entries
pub mod Placed
