pub mod Store
pub mod Naming
