pub mod Coming
pub mod Moving
pub mod Ors
pub mod Tokens
pub mod Turning
