pub mod Orders
pub mod Stories
pub mod Whole
