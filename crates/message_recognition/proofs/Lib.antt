pub mod Runs
pub mod Rounds
