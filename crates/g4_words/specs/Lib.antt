-- Other crates cite Commands; only this crate cites App.
pub mod App
pub mod Commands
