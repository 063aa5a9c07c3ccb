mod Dividing
mod LeastOnes
mod Naming
mod Partitioning
mod Places
mod Ranking
