pub mod Columns
pub mod Frames
