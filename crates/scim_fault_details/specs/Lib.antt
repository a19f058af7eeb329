pub mod code
pub mod JsonLists
pub mod Nearest
pub mod PathEntries
pub mod RuleWords
pub mod TokenDetails
