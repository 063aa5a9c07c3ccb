-- Other crates cite Parsing, Teaching; only this crate cites Deciding, Foresight, NoPredicates, Standing, Tested.
pub mod Deciding
pub mod Foresight
pub mod NoPredicates
pub mod Parsing
pub mod Standing
pub mod Teaching
pub mod Tested
