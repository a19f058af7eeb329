pub mod CertainLemmas
pub mod ClientLemmas
pub mod LossLemmas
pub mod NeedLemmas
pub mod PossibilityLemmas
pub mod TextLemmas
pub mod TokenLemmas
pub mod WarningLemmas
