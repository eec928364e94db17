-- What the types of this crate mean, and what its steps come to.
pub mod Commands
pub mod Matches
