pub mod Ends
pub mod Listing
pub mod Merging
pub mod Runs
pub mod Told
pub mod Tries
