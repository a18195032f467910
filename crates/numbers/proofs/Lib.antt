pub mod Filling
pub mod StateRows
