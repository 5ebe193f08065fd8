pub mod Tiny
pub mod Laws
