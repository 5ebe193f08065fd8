pub mod Covered
pub mod Filtered
pub mod Passing
