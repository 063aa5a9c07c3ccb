mod Cuts
mod Joined
mod Names
mod OneReading
mod Plain
mod Signed
mod Tagged
mod Walked
