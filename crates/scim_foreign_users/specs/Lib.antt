pub mod Exports
pub mod Items
pub mod Resources
pub mod UsersFiles
pub mod code
