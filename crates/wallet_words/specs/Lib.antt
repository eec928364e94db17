pub mod Command
pub mod Count
pub mod Examples
pub mod Laws
pub mod Parser
pub mod code
