pub mod MapFields
pub mod IssuerSignedItems
pub mod Value
pub mod Parts
pub mod code
