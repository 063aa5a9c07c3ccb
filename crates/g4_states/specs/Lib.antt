-- Other crates cite AtomSizes, Numberings, Rules, Trees; only this crate cites Drafts.
pub mod AtomSizes
pub mod Drafts
pub mod Numberings
pub mod Rules
pub mod Trees
