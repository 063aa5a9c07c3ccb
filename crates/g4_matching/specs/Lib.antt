-- Other crates cite Matcher; only this crate cites Automaton, Bounds, Cells, Classes, Ends, Entries, Expanding, Joining, Listed, Listing,
-- Pairs, Partitions, Places, Returns, Waiting.
pub mod Automaton
pub mod Bounds
pub mod Cells
pub mod Classes
pub mod Ends
pub mod Entries
pub mod Expanding
pub mod Joining
pub mod Listed
pub mod Listing
pub mod Matcher
pub mod Pairs
pub mod Partitions
pub mod Places
pub mod Returns
pub mod Waiting
