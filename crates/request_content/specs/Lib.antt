pub mod Rules
pub mod Content
pub mod code
