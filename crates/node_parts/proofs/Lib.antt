pub mod ForAbove
pub mod Halves
pub mod KeptNotes
pub mod MiddleTwo
pub mod MoveLaws
pub mod Pull
pub mod Rounding
pub mod Sorted
