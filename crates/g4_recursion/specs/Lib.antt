-- Other crates cite Checking; only this crate cites AtomLeads, Bodies, Finds, Grammars, Leads, Least, Numbers.
pub mod AtomLeads
pub mod Bodies
pub mod Checking
pub mod Finds
pub mod Grammars
pub mod Leads
pub mod Least
pub mod Numbers
