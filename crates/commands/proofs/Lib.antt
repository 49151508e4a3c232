mod Parts
pub mod ForAbove
pub mod FaultLines
pub mod Fronts
pub mod Right
pub mod Plans
pub mod Lines
pub mod Loads
pub mod Promises
pub mod Both
pub mod Told
pub mod Sure
