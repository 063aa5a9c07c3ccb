mod ByNames
mod Continuing
mod Counted
mod Endings
mod Filled
mod Lasts
mod Numbered
mod Once
mod OneFetched
pub mod OneVocabulary
mod Opened
mod Readings
mod Slashes
mod TableReadings
mod Whole
mod WithVocabulary
