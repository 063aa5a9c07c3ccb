-- Other crates cite each of these.
pub mod Paths
pub mod Reached
pub mod Verdicts
