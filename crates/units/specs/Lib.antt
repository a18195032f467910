pub mod Units
pub mod Extremal
pub mod Sifting
