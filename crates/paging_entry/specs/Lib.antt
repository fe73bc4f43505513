pub mod Purpose
pub mod Entry
pub mod Code
