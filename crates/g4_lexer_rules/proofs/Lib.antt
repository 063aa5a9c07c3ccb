mod ByDigits
mod CanStart
mod Carried
mod Carry
mod Chains
pub mod Checked
mod Drawn
mod Emptied
mod Gathered
pub mod Laws
pub mod Lexed
pub mod LexerMade
mod LexerPlaces
mod Lexing
mod Lists
mod LiteralRules
pub mod Made
pub mod Matches
mod Once
mod Renumbered
mod Sets
mod Starts
mod Symbols
mod TokenTypes
pub mod Trees
