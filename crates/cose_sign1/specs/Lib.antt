pub mod Sign1
pub mod Seal
pub mod code
pub mod Refusal
pub mod Writing
pub mod ReadBack
