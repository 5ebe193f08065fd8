pub mod Packs
pub mod Flushed
pub mod Builds
pub mod Contracts
pub mod Installing
pub mod Jobs
