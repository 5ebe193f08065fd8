pub mod Laws
pub mod Left
pub mod Packs
pub mod Parts
pub mod Pieces
pub mod Rows
pub mod Scans
pub mod Worked
