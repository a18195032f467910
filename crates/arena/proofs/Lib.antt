pub mod Sets
pub mod Sweep
pub mod Loop
pub mod Steps
pub mod Marks
pub mod Rounds
pub mod Marking
