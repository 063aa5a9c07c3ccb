-- Other crates cite Answers, Names, Numbering, Shown, Types, Vocabularies; only this crate cites Halves, Tables.
pub mod Answers
pub mod Halves
pub mod Names
pub mod Numbering
pub mod Shown
pub mod Tables
pub mod Types
pub mod Vocabularies
