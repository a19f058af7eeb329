pub mod BothLemmas
pub mod ClearedLemmas
pub mod ListLemmas
pub mod KnownLemmas
pub mod SoundLemmas
pub mod SoundStepLemmas
