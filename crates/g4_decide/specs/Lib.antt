-- Other crates cite Asked, Deciding; only this crate cites Going.
pub mod Asked
pub mod Deciding
pub mod Going
