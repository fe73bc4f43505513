pub mod Layout
pub mod Table
pub mod Limits
pub mod Mistakes
