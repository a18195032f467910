pub mod Letters
pub mod Extremes
pub mod Looking
pub mod Sets
