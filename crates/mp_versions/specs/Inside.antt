-- What only the crate's own clauses, views and invariants cite.
pub mod Version
pub mod Built
pub mod Left
pub mod Run
pub mod KeptItems
