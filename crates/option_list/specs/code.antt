-- What ties the code to the definitions.
pub mod Entries
pub mod Writing
