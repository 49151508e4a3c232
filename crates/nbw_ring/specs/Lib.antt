pub mod Numbers
pub mod Rule
pub mod Steps
pub mod States
pub mod Seats
pub mod Pairs
pub mod Shelves
pub mod Attempts
