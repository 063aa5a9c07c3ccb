-- Other crates cite Files, Keys, Lines; only this crate cites Answers, Indexed.
pub mod Answers
pub mod Files
pub mod Indexed
pub mod Keys
pub mod Lines
