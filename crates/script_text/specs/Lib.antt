pub mod Lines
pub mod Numbers
pub mod Statement
pub mod Faults
pub mod ScriptFile
pub mod SoFar
pub mod Words
