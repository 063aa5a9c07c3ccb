-- Other crates cite Derivations, Resolving; only this crate cites Texts.
pub mod Derivations
pub mod Resolving
pub mod Texts
