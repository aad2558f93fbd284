mod Repeats
mod Pending
pub mod Lawful
pub mod Progress
