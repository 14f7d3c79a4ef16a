-- Lemmas about lines, words and patterns, and about the text functions.
pub mod BegunLemmas
pub mod CondensedLemmas
pub mod GroupLemmas
pub mod ListLemmas
pub mod LogicalLemmas
pub mod MatchLemmas
pub mod NameLemmas
pub mod OrderLemmas
pub mod PatternLemmas
pub mod PhysicalLemmas
pub mod PlaceLemmas
pub mod SortLemmas
pub mod SureLemmas
pub mod WordLemmas
