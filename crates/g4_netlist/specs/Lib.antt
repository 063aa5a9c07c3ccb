-- Other crates cite Listing, Shown; only this crate cites Making, OfRule, Searching.
pub mod Listing
pub mod Making
pub mod OfRule
pub mod Searching
pub mod Shown
