-- The results of the hub's functions.
pub mod Changes
pub mod Replies
pub mod Rounds
pub mod Servings
