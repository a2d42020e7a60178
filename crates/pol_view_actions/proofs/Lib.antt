pub mod ActionLemmas
pub mod AlteredLemmas
pub mod ChangesLemmas
pub mod FairLemmas
pub mod OwesLemmas
pub mod RowsLemmas
