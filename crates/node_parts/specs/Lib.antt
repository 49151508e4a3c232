pub mod AboutNode
pub mod ClockStandsFor
pub mod FrameCounts
pub mod Listening
pub mod Moves
pub mod Notes
pub mod PlaceInCycle
pub mod Pull
