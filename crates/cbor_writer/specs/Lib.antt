pub mod Writing
pub mod Order
