mod Left
pub mod Signed
