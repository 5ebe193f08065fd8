mod TinyAgain
mod TinySpelled
pub mod TinySuiting
