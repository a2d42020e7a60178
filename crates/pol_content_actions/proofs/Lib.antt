pub mod ActionLemmas
pub mod ChangesLemmas
pub mod OwesLemmas
pub mod RowsLemmas
pub mod ScopesLemmas
pub mod SessionsLemmas
pub mod SoundLemmas
