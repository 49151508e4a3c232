pub mod Titles
pub mod Marks
