pub mod State
pub mod Folding
pub mod Standing
pub mod Settling
pub mod Undoing
pub mod Parting
pub mod Blocking
