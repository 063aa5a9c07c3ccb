-- Other crates cite Known, Learned, Numbers, Paths, Views, Walks, Words; only this crate cites Buckets, Closing, Found.
pub mod Buckets
pub mod Closing
pub mod Found
pub mod Known
pub mod Learned
pub mod Numbers
pub mod Paths
pub mod Views
pub mod Walks
pub mod Words
