-- Other crates cite Placing.
pub mod Placing
