mod Conditions
mod Leading
