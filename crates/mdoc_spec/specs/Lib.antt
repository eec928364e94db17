pub mod Names
pub mod Elements
pub mod Meaning
pub mod Rules
pub mod code
