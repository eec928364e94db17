pub mod Head
pub mod Item
pub mod Grammar
pub mod Parts
pub mod Keys
pub mod Fine
pub mod code
