pub mod Firsts
pub mod Lists
pub mod Nodes
pub mod OneFirst
pub mod Parts
pub mod Trees
