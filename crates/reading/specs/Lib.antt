pub mod Firsts
pub mod Steps
pub mod Drafts
pub mod Stores
pub mod Readings
