-- Other crates cite Follows; only this crate cites Chaining.
pub mod Chaining
pub mod Follows
