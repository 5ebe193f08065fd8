pub mod Good
pub mod Follows
pub mod Views
