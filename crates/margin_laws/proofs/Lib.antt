pub mod ForAbove
pub mod Spread
pub mod Added
pub mod Behind
