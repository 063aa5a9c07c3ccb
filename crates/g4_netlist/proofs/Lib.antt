mod Contained
mod Counted
mod Ordered
mod Marking
mod Marked
mod Ends
pub mod OneListing
