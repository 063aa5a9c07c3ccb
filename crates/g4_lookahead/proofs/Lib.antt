pub mod Apart
pub mod Choices
pub mod Covered
pub mod Ends
mod Exactly
pub mod Judged
pub mod Judging
pub mod Listed
pub mod Looking
pub mod Nearby
pub mod Nexts
pub mod OneChoice
pub mod Parted
pub mod Presumed
pub mod Proper
pub mod Settling
