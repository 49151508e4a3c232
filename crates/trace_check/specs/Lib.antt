pub mod Answer
pub mod Difference
pub mod Following
pub mod Incoming
pub mod Outgoing
