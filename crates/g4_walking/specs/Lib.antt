-- Only this crate cites it.
pub mod Numbers
