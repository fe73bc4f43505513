pub mod Places
pub mod Machine
pub mod Ledger
pub mod Sums
pub mod Closes
pub mod Whole
