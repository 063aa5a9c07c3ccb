pub mod Apart
pub mod Decided
pub mod Ends
pub mod Reading
