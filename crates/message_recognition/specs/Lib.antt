pub mod Table
pub mod Recognition
pub mod Code
