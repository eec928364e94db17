-- What ties the code to the definitions: how issuing ends, by what a call answers.
pub mod Endings
