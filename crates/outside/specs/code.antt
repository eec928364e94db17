-- What the types of this crate with private fields hold.
pub mod MemoryClock
pub mod MemorySink
pub mod MemoryStore
pub mod Real
