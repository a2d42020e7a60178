mod BoundLemmas
mod ChangesLemmas
mod CommitLemmas
mod CommittedLemmas
mod FairLemmas
mod LeftLemmas
mod LoopLemmas
mod MadeLemmas
mod OutcomeLemmas
mod OverlapLemmas
pub mod OwesLemmas
mod RenamedLemmas
mod ReplacedLemmas
mod SingleLemmas
mod SortedLemmas
