pub mod Parts
pub mod Says
pub mod Decode
pub mod Tallies
pub mod Moves
pub mod Suits
