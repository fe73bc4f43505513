pub mod Choice
pub mod Bits
pub mod Window
pub mod Load
pub mod Walk
pub mod Code
