pub mod Bases
pub mod MoveTests
pub mod Sides
pub mod Framed
