-- What only the crate's own clauses, views and invariants cite.
pub mod Command
pub mod Chained
pub mod Effect
pub mod Leaving
pub mod NamedLeaves
pub mod Followed
pub mod Place
pub mod Rules
pub mod Steps
pub mod SeqPool
pub mod IdSet
pub mod Judged
pub mod Parts
pub mod ValidatedTx
