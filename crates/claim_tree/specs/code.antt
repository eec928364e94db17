-- What ties the code to the definitions: the meaning of its own types, and depths of lists of values.
pub mod Depth
pub mod PlainTree
