pub mod Judging
pub mod Listing
pub mod Parts
pub mod Slots
pub mod Ends
pub mod Telling
