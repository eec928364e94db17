pub mod Admits
pub mod Least
pub mod Laws
pub mod code
