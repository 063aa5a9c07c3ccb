mod AddedRule
mod Built
mod ByName
mod CarriedOut
mod Composed
mod Counted
mod Kept
mod KnownCommands
mod Located
pub mod Networks
pub mod OneBuilt
pub mod OneStage
mod Stages
mod TokenNames
mod Trees
mod WrittenCommands
