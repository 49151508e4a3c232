pub mod ForAbove
pub mod Tables
pub mod Counts
pub mod Lines
pub mod Valid
