-- What ties the code to the definitions: the meaning of its own types.
pub mod Parts
pub mod Message
