pub mod Precision
pub mod Differences
pub mod Texts
pub mod Answer
pub mod Words
pub mod Forms
pub mod Promise
