-- What only the crate's own clauses, views and invariants cite.
pub mod Entry
pub mod Noted
pub mod Rule
pub mod Turn
