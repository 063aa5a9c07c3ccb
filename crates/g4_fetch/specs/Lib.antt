-- Other crates cite Closures, Counting, Fetching, Files, Names, Reading; only this crate cites ByNames, Reaching, Tables, Tasks,
-- Vocabularies.
pub mod ByNames
pub mod Closures
pub mod Counting
pub mod Fetching
pub mod Files
pub mod Names
pub mod Reaching
pub mod Reading
pub mod Tables
pub mod Tasks
pub mod Vocabularies
