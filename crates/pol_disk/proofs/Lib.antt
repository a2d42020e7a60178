pub mod FileLemmas
pub mod ImagesLemmas
pub mod MomentsLemmas
