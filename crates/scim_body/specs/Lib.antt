pub mod BodyNames
pub mod BodyValues
pub mod Drafts
pub mod Bodies
pub mod code
pub mod View
pub mod Given
