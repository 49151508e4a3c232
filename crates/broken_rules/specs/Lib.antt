pub mod Clocks
pub mod Jumps
pub mod Start
pub mod Conditions
pub mod Rules
