pub mod AllSome
pub mod Few
pub mod WellFormed
