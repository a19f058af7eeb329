pub mod DecodedLemmas
pub mod EndpointLemmas
pub mod ParameterLemmas
pub mod PositionLemmas
pub mod RouteLemmas
pub mod SlashLemmas
pub mod TableLemmas
