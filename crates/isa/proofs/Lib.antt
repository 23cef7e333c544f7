pub mod Coding
pub mod Decoding
