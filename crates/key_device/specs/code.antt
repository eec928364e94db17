-- What the types of this crate with private fields hold.
pub mod MemoryDevice
