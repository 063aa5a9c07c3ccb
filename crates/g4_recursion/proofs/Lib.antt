mod Bridge
mod Calling
mod Growing
mod Leading
pub mod LeadsRunning
mod Looping
mod Nodes
mod Nullability
mod Numbering
pub mod OneAnswer
mod Over
mod Parts
mod Read
pub mod Running
mod Searching
mod Steps
mod Trees
