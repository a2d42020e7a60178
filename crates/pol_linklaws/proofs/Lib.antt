pub mod AlikeLemmas
pub mod CauseLemmas
pub mod FullLemmas
pub mod OutputLemmas
pub mod SpotLemmas
pub mod StopsLemmas
