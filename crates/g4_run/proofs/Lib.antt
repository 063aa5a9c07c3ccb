pub mod Moments
pub mod OneEnding
mod Unfolding
mod LastSymbol
mod Spelled
pub mod Closing
pub mod Allowing
pub mod Levelled
pub mod Derived
mod Failing
pub mod Trying
