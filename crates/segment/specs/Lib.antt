pub mod Laws
pub mod Swaps
