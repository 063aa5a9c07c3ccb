-- Only this crate cites Nests and Written; the law of precedence is said by Precedence.
pub mod Nests
pub mod Precedence
pub mod Written
