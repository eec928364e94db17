-- What ties the code to the definitions: what the name of a key says in memory.
pub mod Parts
