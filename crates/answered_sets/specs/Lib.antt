pub mod Answered
pub mod Table
pub mod code
