pub mod Functions
pub mod Needed
pub mod Rising
pub mod Rightness
pub mod Widths
