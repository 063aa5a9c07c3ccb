-- Other crates cite each of these.
pub mod Notation
pub mod Productions
pub mod Trees
