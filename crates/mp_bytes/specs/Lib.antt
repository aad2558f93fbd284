pub mod Reading
pub mod Fields
pub mod Spelling
pub mod Inside
