pub mod Verdicts
pub mod Format
pub mod Reads
pub mod Good
