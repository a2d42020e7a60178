pub mod DecidedLemmas
pub mod SoundLemmas
pub mod ValidLemmas
pub mod WholeLemmas
