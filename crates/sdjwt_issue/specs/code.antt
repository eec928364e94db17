-- What ties the code to the definitions: what a spec in memory asks, its payload and disclosures in memory,
-- and errors.
pub mod Asking
pub mod Hiding
pub mod Unsigned
