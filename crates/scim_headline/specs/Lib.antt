pub mod Headline
pub mod Connections
