-- Other crates cite each of these.
pub mod Atoms
pub mod Bind
pub mod Blocks
pub mod Elements
pub mod First
pub mod Full
pub mod Marks
pub mod Refusals
pub mod Rules
pub mod Trees
pub mod Views
