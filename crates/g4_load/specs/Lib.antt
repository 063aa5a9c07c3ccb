-- Other crates cite Building, Counting, Listing, Loading, Stages, Usable; only this crate cites Commands, Derivations, Faults, Locating,
-- Predicates, Stopping, Uniting.
pub mod Building
pub mod Commands
pub mod Counting
pub mod Derivations
pub mod Faults
pub mod Listing
pub mod Loading
pub mod Locating
pub mod Predicates
pub mod Stages
pub mod Stopping
pub mod Uniting
pub mod Usable
