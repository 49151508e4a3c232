pub mod ListFile
pub mod Fault
pub mod Schedule
