pub mod Tries
pub mod Written
