pub mod Clearing
