pub mod Chains
pub mod Eats
pub mod Conds
