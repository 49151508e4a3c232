pub mod Marks
pub mod Places
pub mod Lines
pub mod Standing
