mod Ending
mod Lists
mod Steps
