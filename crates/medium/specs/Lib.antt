pub mod Carried
pub mod Shows
pub mod StandsFor
pub mod ChannelState
