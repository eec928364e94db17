pub mod Spec
pub mod code
