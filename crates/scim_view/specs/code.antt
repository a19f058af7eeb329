pub mod Memberships
pub mod Index
pub mod ShownCells
