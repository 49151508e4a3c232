pub mod Inserted
pub mod Roots
