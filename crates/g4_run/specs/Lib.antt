-- Other crates cite Running, Trials; only this crate's laws cite Failing.
pub mod Failing
pub mod Running
pub mod Trials
