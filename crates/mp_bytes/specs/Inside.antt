-- What only the crate's own views cite.
pub mod HashedBytes
