pub mod Parting
pub mod Meaning
pub mod Verdicts
pub mod Running
