pub mod FromBelow
pub mod Pairs
pub mod FirstJumps
pub mod Slots
pub mod Told
