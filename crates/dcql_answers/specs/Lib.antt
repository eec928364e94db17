pub mod Answer
pub mod Fits
pub mod code
