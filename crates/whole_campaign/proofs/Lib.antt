pub mod CommaLists
pub mod FromBelow
pub mod Lengths
pub mod LineSteps
pub mod Readable
pub mod Rooms
