pub mod Marks
pub mod Runs
pub mod Positions
pub mod Streams
pub mod Ahead
