mod Kept
mod Suited
