pub mod Due
pub mod Faults
pub mod Own
pub mod Readable
pub mod Runs
pub mod Steps
pub mod Whole
pub mod Words
