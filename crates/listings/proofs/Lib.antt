pub mod Texts
pub mod Whole
pub mod OneHead
pub mod Cases
