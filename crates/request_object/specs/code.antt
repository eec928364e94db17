-- What ties the code to the definitions.
pub mod Parts
pub mod Errors
pub mod Asking
pub mod Signed
