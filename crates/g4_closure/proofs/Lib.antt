mod Joining
mod Closing
mod Ending
mod Growing
mod Returned
mod Bounding
mod Missing
mod Stepping
mod Taking
mod Ways
mod Following
mod Remaining
mod Firsts
mod Marking
mod Keeping
pub mod Reversed
pub mod RowOf
mod Held
