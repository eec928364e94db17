pub mod Refusals
pub mod Options
pub mod code
