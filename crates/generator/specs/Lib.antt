pub mod Transactions
pub mod Generated
pub mod Moments
pub mod Examples
