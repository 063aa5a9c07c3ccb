-- Other crates cite Commands, Known, LexNets, Lexable, Lexers, NetworkRules, Rules, Starts, Steps, Tables; only this crate cites Types.
pub mod Commands
pub mod Known
pub mod LexNets
pub mod Lexable
pub mod Lexers
pub mod NetworkRules
pub mod Rules
pub mod Starts
pub mod Steps
pub mod Tables
pub mod Types
