pub mod Atoms
pub mod Sets
