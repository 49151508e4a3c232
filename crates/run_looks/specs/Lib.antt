pub mod Added
pub mod Back
pub mod Questions
