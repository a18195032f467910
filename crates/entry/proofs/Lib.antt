pub mod Bytes
pub mod Entering
