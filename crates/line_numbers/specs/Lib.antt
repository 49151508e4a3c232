pub mod Numbers
pub mod SoFar
