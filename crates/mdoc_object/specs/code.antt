-- What ties code to the definitions: the meaning of its own types.
pub mod Written
