-- Other crates cite Configs, Groups, Hashing, Lowering; only this crate cites Kept, Rows, Verdicts.
pub mod Configs
pub mod Groups
pub mod Hashing
pub mod Kept
pub mod Lowering
pub mod Rows
pub mod Verdicts
