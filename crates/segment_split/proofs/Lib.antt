mod Cut
mod Handles
mod Suited
