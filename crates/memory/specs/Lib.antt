pub mod Store
pub mod Bytes
