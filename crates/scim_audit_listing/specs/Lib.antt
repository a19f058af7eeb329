pub mod Filters
pub mod JsonRows
pub mod Listings
pub mod RefusalNames
