-- Other crates cite Answers; only this crate cites Numberings, Rules.
pub mod Answers
pub mod Numberings
pub mod Rules
