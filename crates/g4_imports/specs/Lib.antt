-- Other crates cite Composites, Faults, Modes; only this crate cites Clauses.
pub mod Clauses
pub mod Composites
pub mod Faults
pub mod Modes
