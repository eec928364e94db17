-- What the types of this crate mean, and how its errors go together.
pub mod AskedFor
pub mod Errors
pub mod Replies
