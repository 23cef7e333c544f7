pub mod Arithmetic
pub mod Shifts
pub mod Logic
