pub mod Bench
pub mod KeysFile
pub mod Refusals
pub mod code
