pub mod Keys
pub mod Records
pub mod Views
pub mod Spelling
pub mod Laws
