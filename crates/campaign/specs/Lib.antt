pub mod Tried
pub mod Cost
pub mod CostText
pub mod Lines
