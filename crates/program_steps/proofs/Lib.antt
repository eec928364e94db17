pub mod EndLaws
pub mod Stops
