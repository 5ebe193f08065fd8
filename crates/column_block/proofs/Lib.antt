mod Examples
mod Kept
mod Lists
pub mod Ordered
pub mod Rising
