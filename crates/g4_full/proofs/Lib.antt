mod FullEnding
mod FullLooking
mod Lists
mod Making
mod Noting
mod Placing
mod Showing
mod Walking
