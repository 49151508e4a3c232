pub mod Averages
pub mod ClockBounds
pub mod Entries
pub mod ForAbove
pub mod Frames
pub mod Limits
pub mod Rounds
pub mod Runs
