pub mod Parting
pub mod Planning
pub mod Uniting
pub mod Lying
pub mod Settling
pub mod Folds
pub mod Joining
pub mod Undoing
