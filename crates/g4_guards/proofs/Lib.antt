pub mod Choosing
pub mod Digits
pub mod Granted
mod Meeting
pub mod Same
mod Testing
