-- What ties the code to the definitions: what its own types mean, and what its steps come to.
pub mod DisclosureList
pub mod Content
pub mod DataCode
pub mod ContentCode
pub mod EnvelopeError
pub mod Refusal
