-- What only the crate's own clauses, views and invariants cite.
pub mod Cell
pub mod Chain
pub mod Found
pub mod Iter
pub mod Lends
pub mod Links
pub mod Ownership
pub mod Relinks
pub mod TicketList
