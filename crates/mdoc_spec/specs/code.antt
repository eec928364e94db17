-- What ties the code to the definitions: texts and integers as they are in memory.
pub mod Texts
