pub mod Found
pub mod AtPlaces
