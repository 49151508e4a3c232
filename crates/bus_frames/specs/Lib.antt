pub mod Sending
pub mod FrameText
pub mod Standing
pub mod WorkedCases
