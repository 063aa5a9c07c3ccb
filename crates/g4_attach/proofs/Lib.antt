mod Answered
mod KeptTypes
pub mod OneAttached
