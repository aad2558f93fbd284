pub mod Inside
pub mod Tickets
