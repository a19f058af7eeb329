pub mod Lists
pub mod Sentences
pub mod Targets
