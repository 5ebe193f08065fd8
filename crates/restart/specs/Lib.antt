pub mod Ready
pub mod Restart
