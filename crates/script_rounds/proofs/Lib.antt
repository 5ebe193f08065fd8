mod Adding
mod Gathered
