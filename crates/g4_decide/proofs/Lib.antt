mod Telling
pub mod Choosing
mod Going
mod Starting
mod Steps
mod Known
