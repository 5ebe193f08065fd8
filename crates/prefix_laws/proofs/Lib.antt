pub mod Same
pub mod Tagging
pub mod Lifting
pub mod Counts
pub mod Steps
pub mod Replica
