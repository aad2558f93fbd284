-- What only the crate's own clauses cite.
pub mod Limbs
pub mod Numbers
pub mod Points
