pub mod Explain
pub mod Idle
pub mod Inquiries
pub mod Laws
pub mod TableLaws
pub mod Tables
pub mod Texts
pub mod code
