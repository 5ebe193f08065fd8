pub mod Runs
pub mod Weakened
