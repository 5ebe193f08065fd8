pub mod Which
pub mod Frames
pub mod Unique
pub mod Onward
pub mod Begun
pub mod Keeping
pub mod Computed
