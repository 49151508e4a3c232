pub mod Ends
pub mod SafeLines
