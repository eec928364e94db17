-- What ties the code to the definitions.
pub mod Search
pub mod Sets
pub mod Step
pub mod Tested
