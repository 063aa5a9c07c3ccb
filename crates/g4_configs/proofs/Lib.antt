pub mod Keys
pub mod Adding
pub mod OneStack
pub mod Listing
pub mod Meaning
pub mod Alternatives
pub mod Alike
pub mod Comparing
pub mod Twice
pub mod Lone
pub mod Snapshots
pub mod Coding
mod Keeping
mod Imaged
mod Merges
mod Loading
