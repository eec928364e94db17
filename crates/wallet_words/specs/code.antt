-- What ties the code to the definitions.
pub mod Commands
pub mod Parsers
