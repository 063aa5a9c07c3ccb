-- Other crates cite Symbols, TokenList; only this crate cites Members.
pub mod Members
pub mod Symbols
pub mod TokenList
