-- Other crates cite each of these.
pub mod Importing
pub mod Laws
pub mod Merging
