-- What only the crate's own clauses, views and invariants cite.
pub mod Client
pub mod Checked
pub mod Asked
pub mod Steps
pub mod Notes
pub mod Before
pub mod Connecting
