pub mod OneCall
pub mod Others
pub mod Numbers
