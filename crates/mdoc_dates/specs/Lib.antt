pub mod Tdate
pub mod Laws
pub mod code
