-- Other crates cite Automata, Stored, Tables, Walks; only this crate cites Guards, Levels, Unique.
pub mod Automata
pub mod Guards
pub mod Levels
pub mod Stored
pub mod Tables
pub mod Unique
pub mod Walks
