pub mod Issuing
pub mod Issued
pub mod Command
pub mod Program
pub mod Laws
pub mod code
