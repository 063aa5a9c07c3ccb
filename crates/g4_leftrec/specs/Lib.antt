-- Other crates cite each of these.
pub mod OwnCalls
pub mod OwnSteps
pub mod Rewriting
