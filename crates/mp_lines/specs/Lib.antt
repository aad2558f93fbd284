pub mod Words
pub mod Fields
pub mod Draft
pub mod Ledgers
pub mod Queries
pub mod Lines
pub mod Inside
