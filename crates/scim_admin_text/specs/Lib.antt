pub mod Endpoints
pub mod Figures
pub mod Listings
pub mod ParameterNames
pub mod Parameters
pub mod Replies
pub mod Requests
