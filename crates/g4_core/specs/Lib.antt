-- Other crates cite Laws, States, Steps; only this crate cites Consistent, Stepping.
pub mod Consistent
pub mod Laws
pub mod States
pub mod Stepping
pub mod Steps
