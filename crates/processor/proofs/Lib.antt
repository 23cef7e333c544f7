pub mod Laws
pub mod Lawful
