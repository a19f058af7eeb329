pub mod Members
pub mod Attributes
pub mod Schemas
pub mod ResourceTypes
pub mod ServiceProviderConfig
pub mod Lists
pub mod Pages
pub mod code
