pub mod FromBelow
pub mod Writes
pub mod Slots
pub mod Texts
