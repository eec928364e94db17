pub mod Disclosures
pub mod DigestSites
pub mod ReservedNames
pub mod Disclosure
pub mod code
