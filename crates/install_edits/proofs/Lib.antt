pub mod Loops
pub mod Ids
pub mod Ranges
pub mod Changed
