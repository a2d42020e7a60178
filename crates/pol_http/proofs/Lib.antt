mod AnswerLemmas
pub mod FieldLemmas
pub mod TextLemmas
pub mod TargetLemmas
pub mod HeadLemmas
pub mod FrontLemmas
pub mod MessageLemmas
pub mod NextLemmas
pub mod CutLemmas
