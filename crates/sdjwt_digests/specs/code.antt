-- What ties the code to the definitions: what its own types mean, and where a digest stands among others.
pub mod Indexes
pub mod Disclosures
pub mod Sites
