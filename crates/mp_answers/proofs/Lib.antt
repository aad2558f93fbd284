pub mod Appending
pub mod Firsts
