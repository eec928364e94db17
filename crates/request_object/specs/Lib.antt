pub mod Front
pub mod Request
pub mod Endings
pub mod Laws
pub mod Made
pub mod code
