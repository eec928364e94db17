-- What ties the code to the definitions: what a spec in memory asks.
pub mod Asking
