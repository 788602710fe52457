pub mod Trees
pub mod Lists
pub mod Extents
pub mod Tallies
pub mod Machines
pub mod MachineLaws
