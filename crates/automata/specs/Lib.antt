pub mod Faults
pub mod Traces
pub mod Joins
pub mod Expressions
pub mod Runs
pub mod Walks
