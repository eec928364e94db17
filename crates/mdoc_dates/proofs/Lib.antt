pub mod Counting
pub mod Texts
mod Examples
