pub mod Values
pub mod Logs
pub mod Causes
pub mod Passages
pub mod Reads
