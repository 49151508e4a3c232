pub mod Promise
pub mod Written
pub mod Unhosted
