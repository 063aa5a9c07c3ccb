-- Other crates cite TreesOf; only this crate cites Children, Marks, Standing.
pub mod Children
pub mod Marks
pub mod Standing
pub mod TreesOf
