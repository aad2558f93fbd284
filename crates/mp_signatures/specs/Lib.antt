pub mod Scheme
pub mod Inside
