pub mod ForAbove
pub mod FromBelow
pub mod ValueLaws
pub mod LineValues
pub mod Options
pub mod ReadLines
pub mod WrittenLines
