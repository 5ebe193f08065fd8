pub mod Facts
pub mod Placing
pub mod Running
pub mod Taking
pub mod AnyOrder
pub mod Steps
