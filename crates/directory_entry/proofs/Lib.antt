pub mod Entries
pub mod Fields
