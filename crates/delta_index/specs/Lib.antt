pub mod Chunks
pub mod Indexes
