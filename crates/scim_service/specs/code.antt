-- The steps by which the code plans a request.
pub mod Others
pub mod Outcomes
pub mod Questions
pub mod Reached
pub mod Refusals
