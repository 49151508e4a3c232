pub mod Growing
pub mod Standing
pub mod Leading
pub mod Steps
