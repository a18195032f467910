pub mod Demands
pub mod Checked
pub mod Cases
