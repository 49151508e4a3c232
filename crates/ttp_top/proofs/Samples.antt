pub mod Alike
pub mod Bounds
pub mod Counted
pub mod Lines
pub mod Said
pub mod Promises
