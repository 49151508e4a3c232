pub mod Promises
pub mod Fronts
pub mod Slots
pub mod Tests
pub mod Traces
pub mod OneRun
