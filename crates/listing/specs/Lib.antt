pub mod Groups
pub mod Text
pub mod Code
pub mod Lines
pub mod Program
pub mod ForC
