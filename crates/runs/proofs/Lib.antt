pub mod AskedInOrder
pub mod Avoiding
pub mod CountLaws
pub mod Each
mod Example
pub mod ExpectedEnds
pub mod Going
pub mod Insisting
pub mod Presenting
pub mod Questions
pub mod Signing
pub mod Trees
pub mod Worlds
