pub mod Gated
pub mod Stores
pub mod Runs
pub mod Found
pub mod Appended
pub mod Made
pub mod Gates
pub mod Rolled
