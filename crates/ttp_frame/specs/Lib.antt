pub mod Bytes
pub mod FrameBytes
pub mod Match
pub mod Shape
pub mod StandsFor
