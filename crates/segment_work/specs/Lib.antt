pub mod Jobs
pub mod Begun
pub mod Outcomes
