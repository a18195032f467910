pub mod Results
pub mod Demand2
pub mod Demand3
pub mod Checked
pub mod Worked
pub mod OneResult
