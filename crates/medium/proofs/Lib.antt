pub mod Flips
pub mod Channels
pub mod Headers
