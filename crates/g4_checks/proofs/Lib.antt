pub mod Braces
pub mod Counting
mod Defined
pub mod FirstClash
pub mod FirstLetters
pub mod OneHolder
pub mod Known
pub mod Missing
pub mod Nodes
pub mod Numbers
pub mod OneCheck
pub mod OneReference
pub mod ParserPredicates
mod Passed
pub mod Sets
