pub mod SortedOnce
pub mod InOrder
pub mod ValueClaims
mod Prefixes
mod Levels
mod Naming
