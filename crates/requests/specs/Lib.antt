pub mod Places
pub mod Words
pub mod Requests
pub mod Names
