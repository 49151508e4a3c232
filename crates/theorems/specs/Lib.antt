pub mod FacedRun
pub mod KeptRun
pub mod ModeText
pub mod Since
pub mod SomeRun
