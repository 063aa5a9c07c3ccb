-- Other crates cite Configurations, Greedy, Leads, Lists, Matching, Network, Spelling, Starts; only this crate cites Single,
-- Walks.
pub mod Configurations
pub mod Greedy
pub mod Leads
pub mod Lists
pub mod Matching
pub mod Network
pub mod Single
pub mod Spelling
pub mod Starts
pub mod Walks
