-- Other crates cite it.
pub mod Attaching
