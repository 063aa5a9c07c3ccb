mod Apart
mod Meant
pub mod OneOutcome
pub mod Taught
mod OpenNames
