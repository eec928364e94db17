-- What ties the code to the definitions: what the walk over a value hides and makes, places in
-- memory, and sorting.
pub mod InOrder
pub mod Places
pub mod Walk
