mod Among
mod Calls
mod EmptyLoops
mod EmptyWord
mod Examples
mod Fit
mod Fullness
pub mod Kept
mod Laid
mod LastCalls
mod LeftCalls
mod Levels
pub mod Lists
mod Made
mod Numbers
pub mod OtherLevel
mod Parts
mod Plainness
mod SameTrees
mod Sources
mod Steps
pub mod Unpredicated
