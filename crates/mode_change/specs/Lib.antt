pub mod Modes
pub mod ModeText
pub mod Knowing
pub mod OneMode
pub mod WorkedCase
