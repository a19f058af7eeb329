pub mod Calendar
pub mod Fractions
pub mod MomentInLemmas
pub mod Printed
pub mod Spellings
pub mod FailureLemmas
pub mod OrderLemmas
pub mod Facts
