-- What the types of this crate mean, and how its errors go together.
pub mod LineErrors
pub mod Meant
pub mod MeantFiles
