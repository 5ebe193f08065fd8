pub mod Slots
pub mod Laws
pub mod Order
pub mod Lists
pub mod Flushes
