mod Lists
mod Paths
mod Frames
mod Clauses
mod Nexts
mod Returns
mod Sound
