pub mod Computed
pub mod LeftOut
