pub mod Tildes
pub mod Issued
pub mod Members
pub mod Asked
pub mod Endings
pub mod Signing
pub mod Hidings
