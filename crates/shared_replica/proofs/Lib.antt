pub mod Turning
pub mod Seeing
pub mod Begun
pub mod Stepping
