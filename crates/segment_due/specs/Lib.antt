pub mod Infos
pub mod Works
pub mod Rows
