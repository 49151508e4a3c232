pub mod HostLines
pub mod Labels
pub mod LineParts
pub mod Numerals
