pub mod Readable
pub mod WellFormed
pub mod Known
pub mod Enough
