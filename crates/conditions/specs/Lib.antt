pub mod Outcomes
pub mod Operands
pub mod Conditions
