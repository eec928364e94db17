pub mod Flags
pub mod Ids
pub mod Rules
pub mod AllBroken
