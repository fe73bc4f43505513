pub mod Table
pub mod Levels
pub mod Stages
pub mod Code
