pub mod Knowing
pub mod Clearing
pub mod Members
pub mod Listed
