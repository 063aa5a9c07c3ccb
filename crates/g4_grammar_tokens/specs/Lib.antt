-- Other crates cite Answers, Characters, Comments, Enclosed, Ends, Nesting, Pieces, Positions, Scanning, Spelling, Statements;
-- only this crate cites Readings, Spans.
pub mod Answers
pub mod Characters
pub mod Comments
pub mod Enclosed
pub mod Ends
pub mod Nesting
pub mod Pieces
pub mod Positions
pub mod Readings
pub mod Scanning
pub mod Spans
pub mod Spelling
pub mod Statements
