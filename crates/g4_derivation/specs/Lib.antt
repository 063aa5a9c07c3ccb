-- Other crates cite Alternatives, Spelling, WalkSpelling, Walks; only this crate cites Letters.
pub mod Alternatives
pub mod Letters
pub mod Spelling
pub mod WalkSpelling
pub mod Walks
