pub mod Names
pub mod Learner
pub mod Follows
pub mod Errors
pub mod Purging
pub mod Steps
