pub mod Sweeps
pub mod Outcomes
pub mod Ranges
pub mod Sums
pub mod Forms
pub mod MarginText
