pub mod ChangesLemmas
pub mod NamesLemmas
pub mod OwesLemmas
pub mod SoundLemmas
