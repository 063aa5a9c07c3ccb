pub mod Alike
mod Answering
mod Guarding
pub mod Paths
mod Placing
pub mod Rests
mod Rising
pub mod Seeing
mod Starting
mod Storing
mod Targets
pub mod Telling
mod Walking
