-- Other crates cite Hands; only this crate cites Dealing, Reaches, Rows, Seats, Shares.
pub mod Dealing
pub mod Shares
pub mod Reaches
pub mod Hands
pub mod Rows
pub mod Seats
