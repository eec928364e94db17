pub mod NoLink
pub mod Signing
pub mod Trees
pub mod Endings
pub mod ReadAsAsked
