-- Other crates cite Names, Pieces, Signs; only this crate cites Found, Joining.
pub mod Found
pub mod Joining
pub mod Names
pub mod Pieces
pub mod Signs
