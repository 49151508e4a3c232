pub mod FaultyAt
pub mod Later
pub mod Standing
pub mod States
pub mod Told
