pub mod Path
pub mod Select
pub mod Hits
pub mod Read
pub mod Refusal
pub mod code
