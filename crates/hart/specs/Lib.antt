pub mod Hart
pub mod Kept
