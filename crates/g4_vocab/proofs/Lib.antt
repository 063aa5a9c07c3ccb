mod CommandedTokens
mod FirstFaces
mod Firsts
mod Groups
pub mod Kept
pub mod KeptNumbers
pub mod Keys
pub mod Laws
mod LeftTypes
pub mod Lists
pub mod Nodes
pub mod OneNaming
pub mod Repeats
mod Sources
mod Split
