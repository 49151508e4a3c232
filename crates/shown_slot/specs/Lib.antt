pub mod Nodes
pub mod Ports
pub mod Trace
