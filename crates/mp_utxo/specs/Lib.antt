pub mod Apply
pub mod ById
pub mod Overlay
pub mod Leaf
pub mod Inside
