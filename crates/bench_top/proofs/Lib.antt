mod Steps
mod Endings
mod NoFaultPassed
