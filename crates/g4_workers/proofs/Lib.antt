mod Joined
pub mod Placed
