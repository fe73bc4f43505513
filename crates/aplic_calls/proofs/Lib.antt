pub mod Tables
pub mod Fields
pub mod Tops
pub mod Claims
pub mod Runs
pub mod Always
