pub mod FromBelow
pub mod Owed
pub mod ArmSlots
pub mod Since
pub mod Near
pub mod Heard
pub mod Deaf
