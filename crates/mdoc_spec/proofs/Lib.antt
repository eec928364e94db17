pub mod Encoded
pub mod Stored
pub mod WellFormed
