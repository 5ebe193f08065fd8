pub mod Sets
pub mod Refusals
pub mod Rows
pub mod Chains
pub mod Longer
pub mod Between
