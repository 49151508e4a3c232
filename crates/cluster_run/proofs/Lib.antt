pub mod FromBelow
pub mod Words
pub mod NewNodes
pub mod Changes
pub mod Rings
pub mod HandingOn
pub mod ReadAll
pub mod RingReads
pub mod Choices
pub mod SlotSteps
pub mod Lines
pub mod SlotParts
pub mod TwoHalves
pub mod ReportTexts
pub mod Sends
pub mod LentReaders
mod Sent
