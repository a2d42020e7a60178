pub mod CauseLemmas
pub mod FilesLemmas
pub mod GivenLemmas
pub mod RunLemmas
pub mod ServingLemmas
pub mod TextLemmas
