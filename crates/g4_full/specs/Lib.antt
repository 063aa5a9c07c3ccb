-- Other crates cite Ahead, Settled; only this crate cites Places, Remembered.
pub mod Ahead
pub mod Places
pub mod Remembered
pub mod Settled
