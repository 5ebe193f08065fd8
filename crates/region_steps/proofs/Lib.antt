pub mod Inside
pub mod Keys
pub mod Ops
pub mod All
pub mod Folding
pub mod Changing
pub mod Unions
pub mod Merging
