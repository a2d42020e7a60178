pub mod DecidedLemmas
pub mod DifferLemmas
pub mod FoundLemmas
pub mod KeyLemmas
pub mod RisingLemmas
