pub mod Arena
pub mod Builder
pub mod Marking
