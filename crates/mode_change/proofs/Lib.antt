pub mod Requests
pub mod Alike
pub mod Nodes
pub mod Made
pub mod Texts
pub mod TextLines
