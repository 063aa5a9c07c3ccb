-- Other crates cite these, but for Predicates.
pub mod Grammars
pub mod Inputs
pub mod Meaning
pub mod Outcomes
pub mod Predicates
pub mod Reported
pub mod Taught
pub mod Texts
