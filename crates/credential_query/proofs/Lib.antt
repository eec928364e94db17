pub mod Ranges
pub mod Readable
pub mod WellFormed
