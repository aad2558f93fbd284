pub mod Token
pub mod Bundle
pub mod Same
pub mod BundleFault
pub mod Sum
pub mod Laws
pub mod Inside
