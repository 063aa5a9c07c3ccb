-- Other crates cite each of these.
pub mod Built
pub mod Callers
pub mod Decisions
pub mod Layout
pub mod Numbered
pub mod Numbers
pub mod Rules
pub mod Size
