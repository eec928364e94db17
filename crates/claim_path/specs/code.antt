-- What ties the code to the definitions.
pub mod AddedHits
pub mod WalkEnd
