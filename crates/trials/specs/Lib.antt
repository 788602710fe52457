pub mod Escapes
pub mod Fields
pub mod Kinds
pub mod Outcomes
pub mod Questions
pub mod Comparisons
