-- What ties the code to the definitions.
pub mod Covered
pub mod Readable
pub mod Stored
