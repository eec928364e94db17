pub mod Meets
pub mod Shown
