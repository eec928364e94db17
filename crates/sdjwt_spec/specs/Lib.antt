pub mod Names
pub mod Addresses
pub mod Meaning
pub mod Rules
pub mod code
