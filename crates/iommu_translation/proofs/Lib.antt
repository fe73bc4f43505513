pub mod Translation
pub mod Sum
pub mod Placed
