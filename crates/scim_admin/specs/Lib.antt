pub mod Answers
pub mod Connections
pub mod Hubs
pub mod Jobs
pub mod Reloads
pub mod Replies
