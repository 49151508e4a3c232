pub mod Arms
pub mod Since
