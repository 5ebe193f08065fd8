pub mod Names
pub mod Flushing
pub mod Laws
