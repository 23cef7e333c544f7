pub mod Grown
pub mod Front
pub mod Fits
pub mod Parts
