pub mod AboveLemmas
pub mod ChainLemmas
mod NamesLemmas
pub mod SoundLemmas
pub mod SoundViewsLemmas
pub mod TiedContentLemmas
pub mod TiedViewsLemmas
pub mod TiesLemmas
