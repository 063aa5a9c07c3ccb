-- Other crates cite Readings, Trees, Values; only this crate cites Answers, Branches, Grammar, Levels, Nesting, Newest, Parsing,
-- Postfix, Steps, Tests, Tokens, TreeCode.
pub mod Answers
pub mod Branches
pub mod Grammar
pub mod Levels
pub mod Nesting
pub mod Newest
pub mod Parsing
pub mod Postfix
pub mod Readings
pub mod Steps
pub mod Tests
pub mod Tokens
pub mod TreeCode
pub mod Trees
pub mod Values
