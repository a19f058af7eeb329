pub mod OutlookParts
pub mod TokenLines
