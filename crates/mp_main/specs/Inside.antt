-- What only the crate's own clauses cite.
pub mod Alike
pub mod Taken
