mod Counting
mod Edges
pub mod OneTally
mod Passing
mod Sizes
mod Tallied
