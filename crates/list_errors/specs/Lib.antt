pub mod Errors
pub mod Agrees
