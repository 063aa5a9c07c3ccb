-- Only this crate cites these.
pub mod Asked
pub mod Leading
