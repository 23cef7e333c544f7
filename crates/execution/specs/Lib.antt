pub mod Conditions
pub mod Accesses
pub mod Effects
