pub mod Fewer
pub mod Safe
