pub mod Choices
pub mod Walks
pub mod Loads
pub mod Pages
pub mod Order
pub mod Offsets
pub mod Truth
pub mod Tests
