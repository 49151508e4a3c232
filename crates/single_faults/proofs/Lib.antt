pub mod ForAbove
pub mod Valid
pub mod Stand
