pub mod Name
pub mod Names
pub mod DeclaredTx
