pub mod Written
pub mod Drawn
pub mod Widths
pub mod Named
pub mod Built
