pub mod Enter
pub mod Largest
