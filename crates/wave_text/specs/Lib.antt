pub mod Moment
pub mod Places
pub mod Telling
pub mod Values
pub mod Variables
pub mod Wave
