pub mod Grammar
pub mod Hexadecimal
pub mod Laws
pub mod Members
pub mod Ranges
pub mod Reading
pub mod Searching
