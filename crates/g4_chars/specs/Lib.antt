-- Other crates cite Building, CharSets, Escapes, Reading, SetText; only this crate cites Properties.
pub mod Building
pub mod CharSets
pub mod Escapes
pub mod Properties
pub mod Reading
pub mod SetText
