pub mod Sets
pub mod Slots
pub mod Applies
pub mod Cutting
pub mod Opened
pub mod Flushes
pub mod Installing
