pub mod Files
pub mod Handles
pub mod Merges
pub mod Parts
pub mod Pieces
pub mod Puts
pub mod Splits
