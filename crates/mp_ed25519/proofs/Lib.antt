pub mod Bytes
pub mod Chain
pub mod Limbs
pub mod Powers
pub mod Tables
