pub mod Signals
pub mod Canteen
pub mod Script
