pub mod Files
pub mod History
pub mod Laws
pub mod Chosen
