pub mod Lists
pub mod Files
pub mod Stores
pub mod Regions
pub mod Logs
