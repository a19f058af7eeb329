pub mod BusyLemmas
pub mod TotalLemmas
pub mod TurnLemmas
