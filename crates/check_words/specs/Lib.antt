pub mod Shown
pub mod Nodes
pub mod Pieces
pub mod Script
pub mod Lines
