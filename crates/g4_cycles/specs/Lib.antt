-- Other crates cite Cycles, Edges; only this crate cites Marks.
pub mod Cycles
pub mod Edges
pub mod Marks
