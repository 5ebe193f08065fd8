pub mod Begins
pub mod RunPlaces
