pub mod Counted
pub mod Joined
pub mod Distances
pub mod Firsts
pub mod Kept
