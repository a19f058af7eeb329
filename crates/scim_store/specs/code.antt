pub mod Damage
pub mod Passing
pub mod Importing
