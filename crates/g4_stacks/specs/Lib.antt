-- Other crates cite Canonical, Graph, Hashing, Listing, Lowering, Merge, Stack, Sums, Table, Taking; only this crate cites Joining.
pub mod Canonical
pub mod Graph
pub mod Hashing
pub mod Joining
pub mod Listing
pub mod Lowering
pub mod Merge
pub mod Stack
pub mod Sums
pub mod Table
pub mod Taking
