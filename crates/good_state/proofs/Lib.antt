pub mod Following
pub mod Applying
pub mod Flushing
pub mod Raising
pub mod Checking
pub mod Reading
