pub mod Numbered
pub mod Written
pub mod Reading
pub mod Named
