pub mod CredentialFile
pub mod Limits
pub mod Met
pub mod QueryFile
pub mod TreeLines
pub mod Wallet
pub mod code
