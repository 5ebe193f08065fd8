pub mod Ranges
pub mod Asks
pub mod Settings
