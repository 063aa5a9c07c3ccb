-- Other crates cite Choosing, Levels, Tests; only this crate cites Meeting.
pub mod Choosing
pub mod Levels
pub mod Meeting
pub mod Tests
