pub mod EntryLines
pub mod Steps
