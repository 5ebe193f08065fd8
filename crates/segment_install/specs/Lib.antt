pub mod Slots
pub mod Told
pub mod Stale
pub mod Plans
pub mod Goodness
