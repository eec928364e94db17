pub mod Spec
pub mod Issued
pub mod Asked
pub mod Issuing
pub mod Endings
pub mod code
