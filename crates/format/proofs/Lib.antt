pub mod Verdicts
pub mod Header
pub mod RowTests
pub mod Readings
pub mod Good
pub mod Order
