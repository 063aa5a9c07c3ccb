mod Begun
mod Done
mod Learned
mod Reported
mod Shared
