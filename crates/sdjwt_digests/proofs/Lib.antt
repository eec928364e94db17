pub mod FirstIndexes
pub mod ValueClaims
pub mod DisclosureParts
pub mod ListedTexts
