pub mod Digits
pub mod Decimal
pub mod Moves
pub mod Written
pub mod Cuts
pub mod Cases
