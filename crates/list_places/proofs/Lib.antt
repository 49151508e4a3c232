pub mod Lining
pub mod Marking
pub mod Turning
