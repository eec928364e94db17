-- What ties the code to the definitions: what a spec in memory asks, and what is made of it.
pub mod Asking
pub mod Unsigned
