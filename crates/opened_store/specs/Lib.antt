pub mod Errors
pub mod Causes
pub mod Opening
