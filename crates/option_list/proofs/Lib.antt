pub mod Lacks
pub mod Lists
pub mod Parts
pub mod Writing
pub mod Named
pub mod TokenLaws
pub mod Readers
pub mod Decided
