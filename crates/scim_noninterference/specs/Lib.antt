pub mod Alike
pub mod Lists
pub mod Cells
pub mod Names
pub mod Laws
