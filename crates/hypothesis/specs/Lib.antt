pub mod Standing
pub mod Jumps
pub mod Walks
pub mod FaultySlots
pub mod SlotIncidents
pub mod SoleStart
pub mod Errors
pub mod FaultyRuns
