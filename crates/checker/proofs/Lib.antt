pub mod Entries
pub mod JudgeLaws
