pub mod Going
pub mod Rising
pub mod BuildSteps
mod Room
mod ToldAgain
mod NumbersAgain
mod RangesAgain
mod CutsAgain
mod OrderAgain
mod EntriesAgain
mod TailAgain
pub mod Outside
mod Counting
pub mod SieveRanges
mod SpelledFooter
pub mod Tails
pub mod ToldPacks
