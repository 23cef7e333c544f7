pub mod Scripts
pub mod Writes
