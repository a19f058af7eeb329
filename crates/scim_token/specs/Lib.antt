pub mod TokenFile
pub mod Tokens
pub mod code
