pub mod RowsFor
pub mod Decided
pub mod Reasoned
pub mod Passage
pub mod Links
