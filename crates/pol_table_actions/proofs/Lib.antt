pub mod ActionLemmas
pub mod ChangesLemmas
pub mod OwesLemmas
pub mod RowsLemmas
