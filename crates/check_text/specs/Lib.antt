pub mod Lines
pub mod At
pub mod Page
pub mod Check
pub mod Sides
pub mod Found
pub mod Laws
