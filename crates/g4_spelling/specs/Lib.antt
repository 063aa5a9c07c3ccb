-- Only this crate cites these.
pub mod Begins
pub mod Canonical
pub mod Fronts
pub mod Greedy
pub mod Marks
pub mod Matches
