pub mod Along
pub mod Beginnings
mod BuiltLoops
pub mod Covers
pub mod Derived
mod Example
mod ExampleLoop
pub mod Firsts
pub mod Items
pub mod Joined
pub mod Joining
pub mod KnownStarts
mod LastCall
mod LastCalls
mod LevelFree
pub mod OfRules
mod Operators
pub mod Placed
pub mod Returning
pub mod Rewritten
pub mod RuleEdges
mod RuleLevels
mod RuleStarts
mod RuleTargets
mod Shapes
mod Spelling
pub mod Spelt
pub mod Starting
mod Steps
pub mod Substituted
pub mod Targets
pub mod Through
pub mod Turning
pub mod Words
