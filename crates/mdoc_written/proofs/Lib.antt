mod Examples
pub mod Sorting
pub mod Texts
pub mod Lengths
pub mod Values
pub mod Items
mod Objects
mod Members
