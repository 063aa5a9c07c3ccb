-- Only this crate cites these.
pub mod Callers
pub mod Clauses
pub mod Numbers
pub mod Steps
