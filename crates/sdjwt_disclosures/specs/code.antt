-- What ties the code to the definitions: what its own types mean, and what its steps come to.
pub mod SpelledItem
pub mod MemberMap
pub mod Processed
pub mod Marked
