pub mod Spreading
pub mod Passing
pub mod Copying
pub mod Safety
pub mod Sets
