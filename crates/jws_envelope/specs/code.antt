-- What ties the code to the definitions: the bytes of a message's parts in memory.
pub mod Decoded
