mod Entries
mod Whole
