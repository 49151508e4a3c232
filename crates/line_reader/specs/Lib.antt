pub mod Reading
pub mod TraceLines
pub mod WorldLines
pub mod TraceForms
