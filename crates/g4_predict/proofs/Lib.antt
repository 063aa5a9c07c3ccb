pub mod Ending
mod Looking
pub mod Onward
pub mod Reached
