pub mod Files
pub mod Answers
pub mod Spots
pub mod Replies
