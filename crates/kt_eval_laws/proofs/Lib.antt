pub mod StoreLemmas
pub mod BalancedLemmas
pub mod DoublingLemmas
pub mod RowLemmas
pub mod SplitLemmas
pub mod BarePlaceLemmas
pub mod ReadingRowLemmas
pub mod GrowingReads
