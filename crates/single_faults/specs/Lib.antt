pub mod Lost
pub mod Tried
