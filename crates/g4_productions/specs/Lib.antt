-- Other crates cite Grammars, Members, Nesting; only this crate cites Answering, Elements, LexerElements, ParserElements, Rules.
pub mod Answering
pub mod Elements
pub mod Grammars
pub mod LexerElements
pub mod Members
pub mod Nesting
pub mod ParserElements
pub mod Rules
