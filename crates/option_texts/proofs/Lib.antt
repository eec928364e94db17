pub mod Integers
pub mod Adding
pub mod Told
