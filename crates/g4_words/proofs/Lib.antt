mod Accepted
mod Flags
mod Numbers
pub mod OneCommand
mod Outputs
mod Refused
mod Rows
mod Taken
mod Walks
