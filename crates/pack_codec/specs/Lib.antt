pub mod Faults
pub mod Rows
pub mod Counted
pub mod Reading
pub mod Spelling
pub mod Laws
pub mod Cuts
