pub mod Clients
pub mod Refusal
