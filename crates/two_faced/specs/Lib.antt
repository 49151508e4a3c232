pub mod Errors
pub mod Faced
pub mod Halved
pub mod Seen
pub mod Spans
pub mod WorkedCases
