-- Other crates cite Files, Learned.
pub mod Done
pub mod Files
pub mod InputsLeft
pub mod Learned
pub mod Lexers
