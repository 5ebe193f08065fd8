pub mod Sieves
