-- Other crates cite it.
pub mod Places
