pub mod Alike
pub mod Joined
pub mod Ranges
pub mod TakenCampaign
pub mod TakenTrace
pub mod TwoSlots
