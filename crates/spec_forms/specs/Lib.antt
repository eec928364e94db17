pub mod KeyNames
pub mod Refusal
