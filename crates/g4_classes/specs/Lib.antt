-- Only this crate cites these.
pub mod Blocks
pub mod Classes
pub mod Columns
pub mod Indices
pub mod Partitions
