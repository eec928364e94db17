pub mod Calls
pub mod Clock
pub mod Faults
pub mod Sink
pub mod Status
pub mod Store
pub mod Words
pub mod code
