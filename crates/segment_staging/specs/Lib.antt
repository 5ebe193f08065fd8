pub mod Staging
pub mod Laws
