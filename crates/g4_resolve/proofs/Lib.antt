mod ByName
mod Carrying
mod FirstNamed
mod Gathering
mod Members
pub mod Numbers
mod Over
mod Parsers
mod Trees
pub mod Unpredicated
