mod Cannot
mod Composing
mod Covering
mod FirstOf
mod Following
mod Kept
pub mod OneIntegration
mod Reported
mod Winning
