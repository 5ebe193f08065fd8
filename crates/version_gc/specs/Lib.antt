pub mod Keep
pub mod Rows
pub mod Shown
