pub mod Written
pub mod Steady
pub mod Counts
pub mod Fine
pub mod FineWritten
pub mod Lengths
pub mod Valid
