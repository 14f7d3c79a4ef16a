-- Lemmas about makefiles read.
pub mod CommentLemmas
pub mod ReadingLemmas
pub mod MachineLemmas
