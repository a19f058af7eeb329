pub mod Replies
pub mod Setting
pub mod Requests
pub mod Step
pub mod Answers
pub mod code
