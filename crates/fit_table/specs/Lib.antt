pub mod Credential
pub mod Slot
pub mod Wallet
pub mod Usable
pub mod Fit
pub mod code
