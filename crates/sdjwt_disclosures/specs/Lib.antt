pub mod Reachable
pub mod MemberNames
pub mod PutMember
pub mod DisclosedTree
pub mod DisclosureRules
pub mod Spelling
pub mod Processed
pub mod code
