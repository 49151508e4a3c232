pub mod Rings
pub mod Writing
pub mod Fetching
pub mod Reading
pub mod Queues
