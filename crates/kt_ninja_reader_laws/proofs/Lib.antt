pub mod ContinuedLemmas
pub mod LayoutLemmas
pub mod SpellingLemmas
pub mod PieceLemmas
