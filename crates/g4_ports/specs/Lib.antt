-- Other crates cite Ports; only this crate cites Memory, Sunk.
pub mod Memory
pub mod Ports
pub mod Sunk
