-- Other crates cite Lexers, Lexing; only this crate cites Commands, Decoding, Positions, Scanning, Tokens.
pub mod Commands
pub mod Decoding
pub mod Lexers
pub mod Lexing
pub mod Positions
pub mod Scanning
pub mod Tokens
