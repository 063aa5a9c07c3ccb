-- Other crates cite Checking, Commands, Holders, Names, Predicates, References; only this crate cites Known, Labels, Uses, Views.
pub mod Checking
pub mod Commands
pub mod Holders
pub mod Known
pub mod Labels
pub mod Names
pub mod Predicates
pub mod References
pub mod Uses
pub mod Views
