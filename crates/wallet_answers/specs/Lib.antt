pub mod Holding
pub mod Admitted
pub mod Listing
pub mod Laws
