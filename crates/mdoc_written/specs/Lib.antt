pub mod Containers
pub mod Element
pub mod Item
pub mod Laws
pub mod code
