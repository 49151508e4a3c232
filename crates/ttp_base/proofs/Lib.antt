pub mod Below
mod Counts
mod Decimal
pub mod Hex
mod Known
mod Told
pub mod Gathered
pub mod Lines
pub mod NodeLists
pub mod NodeSets
pub mod NodeTests
pub mod Numerals
pub mod Outputs
pub mod Puts
pub mod Room
mod Sinks
pub mod SetWords
pub mod Walks
mod Written
