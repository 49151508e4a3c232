pub mod Spots
pub mod Words
pub mod Errors
pub mod Agrees
pub mod SoFar
