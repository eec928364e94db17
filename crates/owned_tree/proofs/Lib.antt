pub mod OwnedParts
pub mod Searches
