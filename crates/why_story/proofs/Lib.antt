pub mod Marked
pub mod Steps
pub mod Slots
pub mod Reaching
pub mod Within
pub mod Keeping
pub mod Roots
pub mod Named
