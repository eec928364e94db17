pub mod Notes
pub mod Addresses
pub mod Lines
pub mod Laws
