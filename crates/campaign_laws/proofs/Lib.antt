pub mod Alike
pub mod Calm
pub mod Ends
pub mod FromBelow
pub mod Kept
pub mod NoYes
pub mod SafeLines
pub mod Yes
