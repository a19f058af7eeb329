pub mod Clients
pub mod Laws
pub mod MayAllow
pub mod Needs
pub mod Texts
pub mod Tokens
pub mod Warnings
pub mod code
