pub mod Texts
pub mod Replies
pub mod Words
pub mod Reading
pub mod Scripts
pub mod Limits
pub mod Misfits
pub mod Refusals
