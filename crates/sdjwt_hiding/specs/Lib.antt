pub mod Addresses
pub mod Hiding
pub mod Meant
pub mod Disclosing
pub mod Issued
pub mod Laws
pub mod code
