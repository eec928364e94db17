pub mod Ends
pub mod Files
pub mod Laws
pub mod Outcome
pub mod Own
pub mod code
