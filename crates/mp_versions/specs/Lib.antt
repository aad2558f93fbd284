pub mod Inside
pub mod Shown
pub mod Version
pub mod Layout
pub mod Pages
pub mod Reading
pub mod Blocks
pub mod Offers
