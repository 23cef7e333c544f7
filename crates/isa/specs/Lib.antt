pub mod Operands
pub mod AppendixA
pub mod Instructions
pub mod Table
pub mod Laws
