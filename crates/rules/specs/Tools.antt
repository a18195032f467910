pub mod Computed
pub mod Links
