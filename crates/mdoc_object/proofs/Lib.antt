pub mod Counts
pub mod Differing
mod Memory
mod Named
