pub mod Faults
pub mod BrokenFaults
pub mod Seen
