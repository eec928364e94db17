pub mod Calls
pub mod Device
pub mod code
