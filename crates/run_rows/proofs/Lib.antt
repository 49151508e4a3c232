pub mod Beginning
pub mod Filled
pub mod ForAbove
pub mod FromBelow
pub mod Near
pub mod OneMore
pub mod RowPlaces
pub mod Slots
