pub mod Faults
pub mod Numbers
pub mod Nulls
pub mod Lists
pub mod Spelling
pub mod Texts
pub mod Laws
