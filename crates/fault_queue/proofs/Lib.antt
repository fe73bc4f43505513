pub mod Lengths
pub mod Records
pub mod Queues
