pub mod Window
pub mod Tables
pub mod Cells
pub mod Picture
