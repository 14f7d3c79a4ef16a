pub mod CutLemmas
pub mod HeadWordLemmas
pub mod OuterLemmas
pub mod PartLemmas
pub mod QuoteLemmas
pub mod NumberLemmas
