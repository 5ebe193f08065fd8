pub mod Tagged
pub mod Clipped
pub mod Prefixes
pub mod Views
pub mod Same
