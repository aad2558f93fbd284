pub mod Field
pub mod Curve
pub mod Ed25519
pub mod Chain
pub mod Constants
pub mod Inside
