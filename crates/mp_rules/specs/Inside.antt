-- What only the crate's own clauses, views and invariants cite.
pub mod Checked
pub mod Resolved
pub mod Groups
pub mod ScriptContext
pub mod Unmoved
pub mod RefusedBlock
