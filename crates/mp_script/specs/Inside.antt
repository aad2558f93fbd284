pub mod DatumRef
pub mod Depths
pub mod Waiting
