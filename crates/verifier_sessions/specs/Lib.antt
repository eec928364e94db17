pub mod History
pub mod Stands
pub mod Replies
pub mod Laws
pub mod Table
pub mod code
