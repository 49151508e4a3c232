pub mod FromBelow
pub mod Pages
pub mod LinesAt
pub mod Sides
pub mod Told
pub mod Written
pub mod FaultNames
pub mod Telling
