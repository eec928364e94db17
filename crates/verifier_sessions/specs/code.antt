pub mod Keeps
pub mod Owned
pub mod Queue
pub mod Records
