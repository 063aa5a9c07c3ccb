pub mod Fitting
mod Begun
mod Passing
mod Closing
mod Deciding
mod Foreseeing
mod Forests
mod Grown
mod Measure
mod MoreWords
mod OneTree
mod Onward
mod OpenRules
mod Parts
mod Precedence
mod Stages
mod Steps
mod Teaching
mod Trying
mod Turns
mod Words
pub mod Accepting
