mod Same
pub mod Crash
pub mod Run
pub mod TwoWrites
pub mod Roots
pub mod Listed
pub mod Stays
pub mod Making
pub mod Created
pub mod NextFile
pub mod Keeping
