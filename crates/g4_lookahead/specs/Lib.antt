-- Other crates cite each of these.
pub mod Covering
pub mod EndOfList
pub mod Near
pub mod Ways
