-- Only this crate cites these.
pub mod Acceptance
pub mod Cells
pub mod Counting
pub mod Ends
pub mod Files
pub mod Inputs
pub mod Learned
pub mod Report
pub mod Running
pub mod Texts
pub mod Writing
