pub mod Credential
pub mod WellFormed
pub mod Readable
pub mod Meaning
pub mod Claims
pub mod code
