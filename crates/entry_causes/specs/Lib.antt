pub mod Senders
pub mod Hearing
pub mod Seeing
pub mod Notes
pub mod Differences
pub mod Told
pub mod Shared
