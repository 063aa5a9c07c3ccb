mod EdgesOf
mod Marking
mod Least
mod Settling
mod Shortest
mod Spreading
mod Visiting
pub mod Reaching
pub mod OneCycle
pub mod SameEdges
