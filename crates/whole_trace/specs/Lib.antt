pub mod Alike
pub mod Due
pub mod Steps
pub mod Whole
