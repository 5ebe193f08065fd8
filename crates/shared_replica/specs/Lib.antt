pub mod Turns
pub mod Following
pub mod Replies
pub mod Errors
pub mod Steps
