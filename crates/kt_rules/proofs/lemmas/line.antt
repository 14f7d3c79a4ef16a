-- Lemmas about the reading of one rule line.
pub mod BackslashLemmas
pub mod WrittenLemmas
pub mod ReaderLemmas
pub mod ReadingLemmas
pub mod NeedsLemmas
pub mod PlainLemmas
pub mod TestingLemmas
pub mod SpecialLemmas
pub mod NoneLemmas
pub mod RefusedLemmas
pub mod SignLemmas
