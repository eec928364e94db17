pub mod Command
pub mod Laws
pub mod Listing
pub mod Program
pub mod Try
pub mod code
