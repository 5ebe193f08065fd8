pub mod Rounds
pub mod Building
pub mod Rows
