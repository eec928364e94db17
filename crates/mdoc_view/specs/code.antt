-- What ties code to the definitions: the meaning of its own types, and conversions of errors.
pub mod Parts
pub mod Content
pub mod ContentCode
pub mod Conversions
pub mod Checked
