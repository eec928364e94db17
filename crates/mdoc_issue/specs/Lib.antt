pub mod Spec
pub mod Issued
pub mod Issuing
pub mod Asked
pub mod Endings
pub mod code
