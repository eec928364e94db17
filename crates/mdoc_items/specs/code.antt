-- What ties code to the definitions: the meaning of its own types, and what stays true in its loops.
pub mod ItemFields
pub mod Valued
pub mod Sorted
