-- Other crates cite Reading; only this crate cites Answering.
pub mod Answering
pub mod Reading
