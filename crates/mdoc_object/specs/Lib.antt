pub mod Namespaces
pub mod ValueDigests
pub mod SecurityObject
pub mod code
