-- What the types of this crate mean, and how its errors go together.
pub mod Entries
pub mod LineStops
