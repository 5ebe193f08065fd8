pub mod Faults
pub mod Fields
pub mod Families
pub mod Regions
pub mod Spelling
pub mod Taken
