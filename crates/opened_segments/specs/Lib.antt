pub mod Errors
pub mod Faults
pub mod Opened
pub mod Tails
pub mod Laws
