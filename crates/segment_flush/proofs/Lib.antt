pub mod Flushed
pub mod Planned
