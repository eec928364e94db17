pub mod Deeper
pub mod Parts
pub mod Tables
