mod AllNamed
mod Shown
pub mod Valid
