pub mod FromBelow
pub mod Channels
pub mod Nodes
pub mod Unflipped
pub mod Reading
