pub mod Lists
pub mod Views
pub mod Writing
pub mod ReadsBack
