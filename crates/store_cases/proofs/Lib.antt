mod Formed
mod Strays
