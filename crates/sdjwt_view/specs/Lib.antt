pub use Rattle.sdjwt_facts.specs.Facts
pub mod Reading
pub mod Credential
pub mod Node
pub mod Refusal
pub mod Relation
pub mod Laws
pub mod code
