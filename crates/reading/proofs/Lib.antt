pub mod Stores
pub mod StepEats
pub mod Growth
pub mod Blocks
pub mod Wholes
