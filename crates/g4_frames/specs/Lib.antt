-- Other crates cite each of these.
pub mod Framed
pub mod Running
