pub mod RunSource
pub mod Marks
pub mod Passes
pub mod Keeps
pub mod Named
