pub mod Answer
pub mod Stories
