mod Asking
pub mod NoFaultPassed
