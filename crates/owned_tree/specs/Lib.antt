pub use Rattle.claim_tree.specs.Tree
pub use Rattle.claim_tree.specs.Parts
pub use Rattle.claim_tree.specs.Ascending
pub mod Owned
pub mod OwnedNode
pub mod Search
pub mod Prefixed
pub mod code
