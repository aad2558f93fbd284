-- What only the crate's own clauses, views and invariants cite.
pub mod Ask
pub mod Request
pub mod Block
pub mod Pool
pub mod ServedPool
pub mod Extended
pub mod Former
pub mod Answer
pub mod KeepsLedger
pub mod Staged
