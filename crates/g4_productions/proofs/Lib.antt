pub mod Cut
pub mod Full
pub mod Listing
pub mod NextSets
mod Pairs
pub mod Ranges
pub mod SetText
pub mod Suffixes
pub mod TooDeep
pub mod Whole
