-- Other crates cite it.
pub mod Fitting
