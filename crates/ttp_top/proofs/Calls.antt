pub mod Precision
pub mod Differences
pub mod Forms
pub mod Asked
pub mod Promises
