pub mod Texts
pub mod Scripts
pub mod Commands
pub mod Runs
