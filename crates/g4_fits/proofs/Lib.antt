pub mod Arriving
pub mod Backward
pub mod Choosing
pub mod Leaving
