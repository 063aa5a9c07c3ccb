-- Other crates cite each of these.
pub mod Options
pub mod Parts
pub mod Prequels
pub mod Progress
pub mod Sets
pub mod Taken
pub mod Texts
