pub mod Lists
pub mod Counts
pub mod Rules
pub mod Dealings
pub mod Rows
pub mod Holdings
