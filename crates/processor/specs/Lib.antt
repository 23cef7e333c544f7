pub mod Cycles
pub mod Transfers
pub mod Machine
pub mod Laws
