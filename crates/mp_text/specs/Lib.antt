pub mod Lines
pub mod Names
pub mod Numbers
pub mod Output
pub mod Words
pub mod LineInput
pub mod Inside
