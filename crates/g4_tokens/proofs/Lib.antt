mod Ranges
mod Searching
mod Without
