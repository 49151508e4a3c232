pub mod Halting
pub mod Names
pub mod Walk
pub mod Reading
pub mod Turns
