pub mod Tries
pub mod Counted
pub mod Written
