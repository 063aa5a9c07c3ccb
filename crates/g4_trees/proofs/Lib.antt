pub mod Appended
pub mod Decoded
mod Entries
mod Forests
mod Items
mod TreeLines
mod Parts
mod Places
mod Printed
mod Standing
mod Steps
mod Unwound
