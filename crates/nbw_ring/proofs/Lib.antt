pub mod Places
pub mod Keeps
pub mod Calls
pub mod Shelves
pub mod Attempts
