-- What only the crate's own clauses cite.
pub mod Heir
pub mod Locked
