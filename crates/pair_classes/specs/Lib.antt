pub mod Ordered
pub mod Summed
