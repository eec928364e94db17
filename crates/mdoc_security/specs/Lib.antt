pub mod ValueDigests
pub mod DeviceKey
pub mod MobileSecurityObject
pub mod SecurityObject
pub mod code
