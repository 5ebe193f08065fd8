mod Seam
mod Suited
