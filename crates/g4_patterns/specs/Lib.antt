-- Other crates cite Alike, Matching, Places, Tags; only this crate cites Lasts, Walking.
pub mod Alike
pub mod Lasts
pub mod Matching
pub mod Places
pub mod Tags
pub mod Walking
