pub mod Link
pub mod Refusal
