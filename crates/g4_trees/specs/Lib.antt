-- Other crates cite Events, Growing, Kept, TokenLines, TreeText, Trees; only this crate cites Appending, Ends, Nodes, Pieces,
-- Steps, Unwinding.
pub mod Appending
pub mod Ends
pub mod Events
pub mod Growing
pub mod Kept
pub mod Nodes
pub mod Pieces
pub mod Steps
pub mod TokenLines
pub mod TreeText
pub mod Trees
pub mod Unwinding
