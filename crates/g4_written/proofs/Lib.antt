pub mod Accepted
mod Beginning
mod Carried
pub mod Derived
mod Laid
mod Nested
mod Numbered
mod Operands
mod Operators
mod Parts
pub mod Precedence
