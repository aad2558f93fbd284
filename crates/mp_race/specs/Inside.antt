-- What only the crate's own clauses, views and invariants cite.
pub mod Task
pub mod Work
pub mod Gathered
pub mod Counts
pub mod Auditing
pub mod HistoryWords
pub mod HistoryFront
pub mod HistoryReading
pub mod Ordered
pub mod Marks
