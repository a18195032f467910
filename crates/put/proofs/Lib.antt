pub mod Pieces
pub mod Numbers
