pub mod Admitting
pub mod Deciding
pub mod FitsListed
pub mod ListingMade
pub mod Naming
pub mod Paging
