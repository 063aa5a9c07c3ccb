-- Other crates cite Passed, Tallies; only this crate cites Counts, Passing, Sizes.
pub mod Counts
pub mod Passed
pub mod Passing
pub mod Sizes
pub mod Tallies
